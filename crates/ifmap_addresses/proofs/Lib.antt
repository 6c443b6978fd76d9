mod Deciding
mod Dotted
mod Grouped
mod Joined
mod Paired
