mod Left
mod Reading
mod Searching
mod Polling
mod Calling
