pub mod PacketStatus
