pub mod Answer
pub mod Asked
pub mod GatewayRefused
pub mod GatewayRows
mod Grown
pub mod Kept
mod Named
pub mod Obeyed
pub mod OutboundRefused
pub mod OutboundRows
pub mod Refused
pub mod Rows
pub mod Stages
pub mod Streamed
mod Ways
