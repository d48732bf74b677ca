pub mod EditCodes
pub mod FeaturesById
pub mod RisingIds
