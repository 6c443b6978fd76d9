pub mod IpV4
pub mod IpV6
pub mod MacAddresses
pub mod Values
pub mod DigitLaws
pub mod IpV4Laws
pub mod IpV6Laws
pub mod MacAddressLaws
