mod Stands
mod StepTexts
mod TaskTags
mod Tries
mod Units
mod Whole
