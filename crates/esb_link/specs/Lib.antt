pub mod SerialLink
