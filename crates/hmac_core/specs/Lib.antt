pub mod Hmac
pub mod Mac
pub mod Pbkdf2
pub mod Sha1Length
