pub mod DecodeLaws
pub mod EncodeLaws
pub mod TableLaws
