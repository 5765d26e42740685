pub mod MailLemmas
pub mod Tables
pub mod Woken
