-- What publishing makes of attachments, in reading order.
pub mod Apply
pub mod Notes
pub mod Retract
pub mod OnItems
pub mod Working
pub mod NoteLaws
-- What is passed on to the crates above.
pub mod ifmap_requests
pub mod ifmap_view
