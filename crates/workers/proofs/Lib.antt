mod Packs
mod Turns
