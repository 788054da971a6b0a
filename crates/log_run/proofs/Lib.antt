mod Reading
mod Causes
