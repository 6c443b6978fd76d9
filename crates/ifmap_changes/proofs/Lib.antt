-- Lemmas, in reading order: lists place by place, and beside flags; numbers that are held, and steady graphs; what is
-- flagged, settled and taken back; what is told of a change; one graph of what is stored, and what stays whole; where subscriptions start;
-- a change that comes to be out, and is made or given up, and its steps; what is published and taken away; what stands after an error.
pub mod EachPlace
pub mod Flags
pub mod Numbers
pub mod Steady
pub mod Flagging
pub mod Settling
pub mod Told
pub mod OneGraph
pub mod Starts
pub mod Begun
pub mod Making
pub mod Spending
pub mod Taken
pub mod Exits
