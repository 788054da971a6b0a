mod Endings
mod KeyLines
mod Naming
