pub mod RangeLaws
pub mod HeldLaws
pub mod ToldLaws
pub mod EditLaws
pub mod FreshLaws
pub mod LineLaws
pub mod KeptLaws
pub mod StartLaws
