pub mod LiveMap
