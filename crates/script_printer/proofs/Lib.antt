pub mod TextSteps
pub mod Lined
pub mod ModelsBack
pub mod StepsBack
pub mod ScriptsBack
