-- Which place of a picture is the first where a test holds, and which sample is the first bad one.
pub mod First
