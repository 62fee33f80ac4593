mod Numbering
mod Alike
mod Needing
