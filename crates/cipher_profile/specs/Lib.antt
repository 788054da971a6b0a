pub mod Hashes
pub mod KeyCauses
pub mod KeyLine
pub mod Keys
pub mod Passphrase
pub mod Profile
