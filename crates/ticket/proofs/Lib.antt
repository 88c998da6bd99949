pub mod Nonce
pub mod Reading
pub mod EachTicket
pub mod Summing
pub mod WordBytes
pub mod Writing
pub mod Rules
