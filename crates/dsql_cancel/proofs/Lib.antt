mod Order
mod Places
mod Kept
mod Search
mod Meaning
