pub mod StateLaws
pub mod NobodyLaws
pub mod AnnexTheorem
