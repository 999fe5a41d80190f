-- The definitions that the contracts cite: when the code's data stands for a policy, and what a run leaves.
pub mod Compose
pub mod Run
