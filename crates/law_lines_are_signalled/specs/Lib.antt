pub mod Signalled
