-- A client takes a reply.
pub mod Taking
pub mod NextReply
