mod Parting
mod Blanks
