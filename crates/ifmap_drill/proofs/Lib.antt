mod ClientNames
mod Counting
mod FitRequests
mod LinkElements
mod Making
mod SoundDrills
