-- How network files are read and printed, a file a line.
pub mod Sugar
pub mod Grammar
pub mod Form
pub mod File
pub mod ReadNet
pub mod Printing
pub mod FileLaws
pub mod FileRows
pub mod StepGrammar
pub mod Certificate
pub mod CertificateLaws
pub mod ReadCertificate
pub mod CertificatePrinting
pub mod CertificateRows
