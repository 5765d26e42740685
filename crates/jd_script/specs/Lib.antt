pub mod PlainScript
pub mod CodeScript
