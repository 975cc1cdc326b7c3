pub mod Imports
pub mod AskedRequests
pub mod KnownRequests
pub mod OpenRequests
pub mod Reports
