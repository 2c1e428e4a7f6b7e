-- Each answer is where the chain of tests in its definition ends.
-- Assumes nothing.
use mathlib.Core.Path.{ap}
use borrow.Author.Tests.{eq-eqb, ne_eqb}
use Rattle.scalar.proofs.Laws.{get-byte}
use lib.ListN.{length}
use Rattle.modulation.specs.Modulations.{config_form}
use Rattle.form.proofs.Laws.{exactly-at-least}
use Rattle.command.specs.Commands.{command_form, command_of}
use Rattle.command.specs.declared.Command.TheVariants as C
use Rattle.command.proofs.Laws.{tx-some}
use Rattle.command.proofs.command_of.Goals as goal

pub returns-then-kind-eq-PING : goal.returns-then-kind-eq-PING
unfolding command_of
returns-then-kind-eq-PING c = rw (eq-eqb _ _ c.if-kind-eq-PING.true)

pub returns-then-kind-eq-GET_INFO : goal.returns-then-kind-eq-GET_INFO
unfolding command_of
returns-then-kind-eq-GET_INFO c = rw (ne_eqb _ _ c.if-kind-eq-PING.false, eq-eqb _ _ c.if-kind-eq-GET_INFO.true)

pub config_of-requires : goal.config_of-requires
unfolding command_form
config_of-requires c =
    exactly-at-least (config_form c.args.payload.now) (length c.args.payload.now) (rw (eq-eqb _ _ c.if-kind-eq-SET_CONFIG.true) at c.requires)

pub returns-then-kind-eq-SET_CONFIG : goal.returns-then-kind-eq-SET_CONFIG
unfolding command_of
returns-then-kind-eq-SET_CONFIG c =
    let if1 = c.if-kind-eq-PING in
    let if2 = c.if-kind-eq-GET_INFO in
    let if3 = c.if-kind-eq-SET_CONFIG in
    rw (ne_eqb _ _ if1.false, ne_eqb _ _ if2.false, eq-eqb _ _ if3.true) (ap C.SetConfig c.config_of.ensures)

pub bounds-payload-0 : goal.bounds-payload-0
unfolding command_form
bounds-payload-0 c =
    let if3 = c.if-kind-eq-SET_CONFIG in
    let if4 = c.if-kind-eq-TX in
    tx-some c.args.payload.now (rw (ne_eqb _ _ if3.false, eq-eqb _ _ if4.true) at c.requires)

pub returns-then-kind-eq-TX : goal.returns-then-kind-eq-TX
unfolding command_of command_form
returns-then-kind-eq-TX c =
    let if1 = c.if-kind-eq-PING in
    let if2 = c.if-kind-eq-GET_INFO in
    let if3 = c.if-kind-eq-SET_CONFIG in
    let if4 = c.if-kind-eq-TX in
    let h = tx-some c.args.payload.now (rw (ne_eqb _ _ if3.false, eq-eqb _ _ if4.true) at c.requires) in
    rw (ne_eqb _ _ if1.false, ne_eqb _ _ if2.false, ne_eqb _ _ if3.false, eq-eqb _ _ if4.true) (ap C.Tx (get-byte 0 c.args.payload.now h))

pub returns-then-kind-eq-RX_START : goal.returns-then-kind-eq-RX_START
unfolding command_of
returns-then-kind-eq-RX_START c =
    let if1 = c.if-kind-eq-PING in
    let if2 = c.if-kind-eq-GET_INFO in
    let if3 = c.if-kind-eq-SET_CONFIG in
    let if4 = c.if-kind-eq-TX in
    rw (ne_eqb _ _ if1.false, ne_eqb _ _ if2.false, ne_eqb _ _ if3.false, ne_eqb _ _ if4.false, eq-eqb _ _ c.if-kind-eq-RX_START.true)

pub returns : goal.returns
unfolding command_of
returns c =
    let if1 = c.if-kind-eq-PING in
    let if2 = c.if-kind-eq-GET_INFO in
    let if3 = c.if-kind-eq-SET_CONFIG in
    let if4 = c.if-kind-eq-TX in
    rw (ne_eqb _ _ if1.false, ne_eqb _ _ if2.false, ne_eqb _ _ if3.false, ne_eqb _ _ if4.false, ne_eqb _ _ c.if-kind-eq-RX_START.false)
