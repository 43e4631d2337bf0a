-- The code of networks, a file a line.
pub mod Running
pub mod Bodies
pub mod CodeView
pub mod CodeOf
pub mod CodeLaw
pub mod Calls
