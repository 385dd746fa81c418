pub mod Carries
pub mod Layouts
pub mod BitsLayout
pub mod Places
pub mod BytesLayout
pub mod ResiduesLayout
