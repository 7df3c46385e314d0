pub mod LastDigits
pub mod WrittenTexts
pub mod AdvertSizes
pub mod AuditLines
pub mod MappedTexts
pub mod RefusalLines
pub mod TextFronts
pub mod TextHeads
