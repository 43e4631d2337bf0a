mod Matches
mod Parsed
