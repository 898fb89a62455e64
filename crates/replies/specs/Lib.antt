pub mod Replies
pub mod Books
pub mod Hands
