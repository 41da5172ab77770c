pub mod Read
pub mod Fill
pub mod Right
pub mod Parts
pub mod Glued
pub mod Whole
pub mod Classes
pub mod Filled
