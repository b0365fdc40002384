pub mod SizeLaws
pub mod ChainLaws
