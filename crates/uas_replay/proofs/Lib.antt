mod Appended
mod Outcomes
mod Goes
mod Notes
mod NoNews
mod Transitions
mod WholeScripts
mod ReplyLines
pub mod Shown
mod Opening
