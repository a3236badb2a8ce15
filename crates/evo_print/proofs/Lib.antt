pub mod Steps
pub mod Lists
pub mod ExpressionTexts
pub mod StatementTexts
pub mod DeclarationTexts
