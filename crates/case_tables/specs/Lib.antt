pub mod RecipeView
pub mod Recipes
pub mod Formulas
pub mod Tables
pub mod Entries
