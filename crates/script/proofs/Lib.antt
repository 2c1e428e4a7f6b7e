mod Words
mod Numbers
mod Gathering
mod Items
