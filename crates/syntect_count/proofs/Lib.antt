pub mod MeterLaws
-- What the walks of counts share.
pub mod Walks
