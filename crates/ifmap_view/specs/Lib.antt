-- What stands on items, and what holds of a view, in reading order.
pub mod Attachments
pub mod Rows
pub mod Views
