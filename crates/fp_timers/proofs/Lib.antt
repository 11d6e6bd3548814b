mod Dues
mod Lanes
mod Lookups
mod Maps
mod Names
mod Order
mod Searches
mod Times
