mod Names
mod ReadTexts
