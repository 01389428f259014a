pub mod Features
pub mod Grammar
pub mod Rules
pub mod Tables
