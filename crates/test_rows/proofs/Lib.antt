mod Ascii
mod Kept
