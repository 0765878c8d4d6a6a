pub mod ChosenNumbers
pub mod EventLaws
pub mod EventOwners
pub mod SiteLaws
pub mod SiteOwners
pub mod WrittenOwners
