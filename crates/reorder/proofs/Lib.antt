pub mod HeldLaws
pub mod LeastLaws
pub mod PassLaws
pub mod RefusalLaws
pub mod Rows
pub mod StepLaws
