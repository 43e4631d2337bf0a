-- The C of a network as text, a file a line.
pub mod Piece
pub mod PieceView
pub mod Lists
pub mod NamedText
pub mod FilterText
pub mod FixedText
pub mod Fingerprint
pub mod FoldedText
pub mod CommentText
pub mod FileText
