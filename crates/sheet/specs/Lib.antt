pub mod Grammar
pub mod Rendering
pub mod Inside
pub mod Answer
pub mod Reader
pub mod Writer
pub mod RoundTrip
pub mod FirstBad
