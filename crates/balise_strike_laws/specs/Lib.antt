pub mod Laws
pub mod Striking
pub mod Witness
pub mod InSession
pub mod Redoing
pub mod Journals
pub mod Sessions
pub mod Headline
