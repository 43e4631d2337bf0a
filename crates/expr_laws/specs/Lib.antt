-- The laws of expressions, and what each answers.
pub mod ExpressionLaw
pub mod Direct
pub mod Table
pub mod Laws
pub mod Answer
