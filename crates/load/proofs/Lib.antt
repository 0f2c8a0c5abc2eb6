mod Decays
mod Estimates
mod Laws
