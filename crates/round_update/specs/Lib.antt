pub mod Update
