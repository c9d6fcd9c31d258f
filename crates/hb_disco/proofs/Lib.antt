mod Fields
mod Versions
